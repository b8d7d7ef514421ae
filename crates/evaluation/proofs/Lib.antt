mod BitLaws
mod EdgeLaws
mod FirstLaws
mod JointLaws
mod RowLaws
mod UseLaws
mod ValueTests
