-- What contracts see of the adapters over the writers of std.
use Rattle.port_io.specs.declared.adapters.StdSink.{StdSink}

-- the writer to which a sink passes bytes on
abbrev pub writer_of : {W : Type 0} → StdSink W → W
writer_of sink = sink.inner
