pub mod RecordCalls
