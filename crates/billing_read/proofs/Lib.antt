pub mod CountLemmas
pub mod ChangeLemmas
pub mod HiddenLemmas
pub mod SearchLemmas
pub mod BillLemmas
pub mod CopyLemmas
