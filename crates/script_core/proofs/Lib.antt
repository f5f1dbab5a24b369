mod Components
mod Keywords
