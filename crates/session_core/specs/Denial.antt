-- The texts of what a session itself refuses, by cause.
use Rattle.std.specs.Prelude.{ℕ, List}
use Rattle.session_core.specs.declared.texts.Denial.{Denial}
use Rattle.session_core.specs.declared.texts.Denial.TheVariants as denials
use Rattle.session_core.specs.Texts as texts

abbrev pub denial_text : Denial → List ℕ
denial_text denials.UnknownMessage = texts.unknown_message
denial_text denials.BadMessage = texts.bad_message
denial_text denials.NoVersion = texts.no_version
denial_text denials.MessageSizeTooSmall = texts.message_size_too_small
denial_text denials.AuthenticationNotRequired = texts.authentication_not_required
denial_text denials.UnknownFid = texts.unknown_fid
denial_text denials.FidInUse = texts.fid_in_use
denial_text denials.TooManyFids = texts.too_many_fids
denial_text denials.FidIsOpen = texts.fid_is_open
denial_text denials.FidIsNotOpen = texts.fid_is_not_open
denial_text denials.BadOffset = texts.bad_offset
denial_text denials.NotPermitted = texts.not_permitted
denial_text denials.IsADirectory = texts.is_a_directory
