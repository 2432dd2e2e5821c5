-- What the call of `check` alone promises.
pub mod CallLaws
