mod WordsBehind
