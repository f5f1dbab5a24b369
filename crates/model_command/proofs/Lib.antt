mod Attaching
