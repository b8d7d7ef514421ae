mod DrawLaws
mod EntryLaws
