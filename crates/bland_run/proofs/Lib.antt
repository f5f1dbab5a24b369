mod Ends
mod Replies
mod Shapes
mod Taken
