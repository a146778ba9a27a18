-- The client's messages have a spelling.
use Rattle.std.proofs.Common.{codes, lit<, rules}
use Rattle.std.proofs.lemmas.Str.{IsUtf8-from_ascii, IsUtf8-nil}
use Rattle.tree_model.specs.Wire.{IsString}
use Rattle.ninep_wire.specs.TMessage.{IsMessage}
use Rattle.sync_client.specs.Messages.{protocol, version_message, attach_message}

pub protocol_string : IsString protocol
protocol_string = record { fits = lit< tt; utf8 = IsUtf8-from_ascii protocol (search rules) }

user_string : IsString (codes "vault")
user_string = record { fits = lit< tt; utf8 = IsUtf8-from_ascii (codes "vault") (search rules) }

pub version_formed : IsMessage version_message
version_formed = record { tag = lit< tt; body = (lit< tt, protocol_string); size = lit< tt }

pub attach_formed : IsMessage attach_message
attach_formed = record { tag = lit< tt; body = (lit< tt, lit< tt, user_string, record { fits = lit< tt; utf8 = IsUtf8-nil }); size = lit< tt }
