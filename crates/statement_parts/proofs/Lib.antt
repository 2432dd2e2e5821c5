pub mod AssignedLaws
