mod Scoped
