mod Compacting
mod Retaining
