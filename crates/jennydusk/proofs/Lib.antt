mod Length
