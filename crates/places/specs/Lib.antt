pub mod AppendLists
