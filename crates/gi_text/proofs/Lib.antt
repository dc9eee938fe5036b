mod FirstByte
mod LineLemmas
mod ColumnLemmas
