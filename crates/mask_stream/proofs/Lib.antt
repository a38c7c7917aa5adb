pub mod RowLoop
