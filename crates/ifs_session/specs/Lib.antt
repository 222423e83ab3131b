-- From the top down: runs, sessions, connections, lines, requests, replies, and what these use.
pub mod Runs
pub mod Sessions
pub mod Service
pub mod Accounts
pub mod Hosts
pub mod Script
pub mod Lines
pub mod Requests
pub mod Places
pub mod Questions
pub mod Replies
pub mod Readings
pub mod Hexadecimal
pub mod Device
pub mod Memory
pub mod Buffer
pub mod inner
