pub mod LeaveRows
