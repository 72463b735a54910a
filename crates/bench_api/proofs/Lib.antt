mod Counted
mod Updated
