pub mod ChangeRow
