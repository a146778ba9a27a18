-- Where clients are to connect, by the text of an address.
use Rattle.std.specs.Prelude.{◌≡◌, ℕ, List, ◌++◌, codes, string_bytes}
use Rattle.host_sockets.specs.declared.address.Address.{Address}
use Rattle.host_sockets.specs.declared.address.Address.TheVariants.{Path, Host}

-- after `unix:` a path of this host, and else the whole text, a host and a port
abbrev pub IsNamedBy : List ℕ → Address → Type 0
IsNamedBy text (Path path) = text ≡ codes "unix:" ++ string_bytes path
IsNamedBy text (Host host) = (string_bytes host ≡ text) × ((path : List ℕ) → text ≡ codes "unix:" ++ path → ⊥)
