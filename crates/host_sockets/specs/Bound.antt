-- What a socket tells: where it is, whether it is bound there, and the file that it has.
use Rattle.std.specs.Prelude.{ℕ, Bool, List, Option, Some, None, is_some, string_bytes}
use Rattle.host_sockets.specs.declared.address.Address.{Address}
use Rattle.host_sockets.specs.declared.address.Address.TheVariants.{Path, Host}
use Rattle.host_sockets.specs.declared.socket.Socket.{Socket}

-- where clients are to connect
abbrev pub address_of : Socket → Address
address_of socket = socket.address

-- whether they can
abbrev pub is_bound : Socket → Bool
is_bound socket = is_some socket.door

-- the path of a Unix socket
abbrev pub path_in : Address → Option (List ℕ)
path_in (Path path) = Some (string_bytes path)
path_in (Host host) = None

-- the file of what listens at an address, if something does
abbrev pub file_at : {D : Type 0} → Option D → Address → Option (List ℕ)
file_at (Some door) address = path_in address
file_at None address = None

-- the file that a socket is bound at: that of a Unix socket's path
abbrev pub file_of : Socket → Option (List ℕ)
file_of socket = file_at socket.door socket.address
