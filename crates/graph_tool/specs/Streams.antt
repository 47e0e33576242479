-- The reader behind a source and the writer behind a sink, whose bytes the library may tell.
use Rattle.std.specs.Prelude.{ℕ, Bool}
use Rattle.graph_tool.specs.declared.streams.ReadSource.{ReadSource}
use Rattle.graph_tool.specs.declared.streams.WriteSink.{WriteSink}

-- the reader, the count of reads that failed, and whether one has answered that nothing is left
abbrev pub reader_of : {R : Type 0} → ReadSource R → R
reader_of s = s.reader

abbrev pub reader_faults : {R : Type 0} → ReadSource R → ℕ
reader_faults s = s.faults

abbrev pub reader_ended : {R : Type 0} → ReadSource R → Bool
reader_ended s = s.ended

-- the writer, and the count of writes that failed
abbrev pub writer_of : {W : Type 0} → WriteSink W → W
writer_of s = s.writer

abbrev pub writer_faults : {W : Type 0} → WriteSink W → ℕ
writer_faults s = s.faults
