pub mod StoredFiles
