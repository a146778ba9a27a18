use Rattle.std.proofs.Common.{length}
use Rattle.file_chunks.specs.File.{content_of}
use Rattle.tree_answers.proofs.Sizes.{long_by}
use Rattle.vault_store.proofs.HostReads.{sizes_are_held}
use Rattle.vault_store.proofs.sizes.have_sizes.Goals as goal

pub returns : goal.returns
returns c =
    let laws = c.reads_are_slices.ensures in
    sizes_are_held c.args.keys.now (λ bytes.
    long_by (content_of c.args.keys.now bytes) (length bytes) (λ none. (laws.bad c.args.keys.now bytes).0 none) (λ n some. laws.len c.args.keys.now bytes n c.have_32_bytes.ensures.enc some))
