mod FileLaws
mod HeadLaws
mod LineLengths
mod ReadLaws
mod RowLaws
mod StageLaws
