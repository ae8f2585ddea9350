mod Refusing
mod Unread
