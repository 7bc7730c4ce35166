mod Padding
