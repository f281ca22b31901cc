pub mod SessionRun
