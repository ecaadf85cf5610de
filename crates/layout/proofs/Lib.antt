mod Declaring
mod Pushed
