pub mod TopicRows
