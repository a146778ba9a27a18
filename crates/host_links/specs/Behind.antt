-- What of the runtime is behind an object.
use Rattle.std.specs.Prelude.{Bool, Option}
use Rattle.host_links.specs.declared.ends.Untold.{Untold}
use Rattle.host_sockets.specs.declared.standard.Output.{Output}
use Rattle.host_sockets.specs.declared.socket.Socket.{Socket}
use Rattle.host_links.specs.declared.stream.StdSource.{StdSource}
use Rattle.host_links.specs.declared.stream.StdSink.{StdSink}
use Rattle.host_links.specs.declared.link.StreamLink.{StreamLink}
use Rattle.host_links.specs.declared.listen.HostListen.{HostListen}
use Rattle.host_links.specs.declared.socket.SocketLink.{SocketLink}
use Rattle.host_links.specs.declared.socket.SocketListen.{SocketListen}

-- the reader that doesn't tell
abbrev pub untold_reader : {I : Type 0} → Untold I → I
untold_reader untold = untold.reader

-- the reader of a source
abbrev pub source_reader : {I L : Type 0} → StdSource I L → I
source_reader source = source.input

-- the writer of a sink
abbrev pub sink_writer : {O L : Type 0} → StdSink O L → O
sink_writer sink = sink.output

-- the reader and the writer of a link
abbrev pub link_reader : {I O : Type 0} → StreamLink I O → I
link_reader link = link.input

abbrev pub link_writer : {I O : Type 0} → StreamLink I O → O
link_writer link = link.output

-- the link that is to come, if it hasn't come yet
abbrev pub link_to_come : {R L I : Type 0} → HostListen R L I → Option (StreamLink (Untold I) (Output R))
link_to_come listen = listen.link

-- the socket at which a listener is
abbrev pub socket_of : {R L : Type 0} → SocketListen R L → Socket
socket_of listen = listen.socket.now

-- a client that is at its end: no byte came for too long, or the server ends
abbrev pub is_over : SocketLink → Bool
is_over link = link.is_over
