use Rattle.std.proofs.Common.{arith, rules}
use Rattle.scrypt_kdf.proofs.Words.{bytes_of_words-read}
use Rattle.scrypt_kdf.proofs.mixing.read_words.Goals as goal

pub returns : goal.returns
returns c = bytes_of_words-read c.read_u32_into.new.dst c.args.bytes.now (omega arith) (search rules) c.read_u32_into.ensures
