mod InlineTexts
mod Kept
