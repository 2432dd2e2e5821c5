mod CountLaws
mod BodyLaws
mod RowLaws
mod MadeLaws
