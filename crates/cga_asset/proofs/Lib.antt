mod Corners
mod Digits
mod Faces
mod Reading
mod Large
