-- A round, and the merge of its rows: what each function of them says.
pub mod Run
pub mod Merge
