use Rattle.std.proofs.Common.{ℕ, List, Option, refl, sym, ap, subst, ◌∙◌}
use Rattle.std.specs.Option.{option_copied}
use Rattle.vault_keys.specs.Keys.{KeyPair}
use Rattle.outside.specs.Calls.{Told}
use Rattle.outside.specs.Images.{disk_in}
use Rattle.outside.specs.Views.{folder_in}
use Rattle.tree_loading.specs.Format.{sealing_of}
use Rattle.tree_model.specs.declared.request.Request.{Request}
use Rattle.tree_model.specs.Names.{names_in}
use Rattle.tree_model.specs.Asked.{look, walk, open_node, read, list, stat_of, plain_reply, plain_request}
use Rattle.tree_model.specs.Step.{IsReading}
use Rattle.live_tree.specs.Held.{HeldTree}
use Rattle.vault_store.specs.Reading.{HasContents}
use Rattle.vault_store.specs.Sizes.{SizesAreHeld}
use Rattle.vault_store.proofs.Lookups.{kept_here, looked_up, plain_read, reading_keeps, sized_read}
use Rattle.vault_store.proofs.LookedUp.{walk_read, list_read}
use Rattle.vault_store.proofs.reading.look_up.Goals as goal

pub read-requires-clause-contents : goal.read-requires-clause-contents
read-requires-clause-contents g c =
    let told = disk_in (g.R.Reads.log c.args.folder.now) in
    subst (λ (k : KeyPair). Told told (HasContents (sealing_of k) c.live-live.result.now)) (sym c.keys-in-Read.ensures)
    (subst (λ (l : HeldTree). Told told (HasContents (sealing_of c.args.tree.now.keys) l)) (sym c.live-live.ensures) c.requires.contents)

pub returns-in-Read-clause-still : goal.returns-in-Read-clause-still
returns-in-Read-clause-still g c = λ entries second source.
    let tree = c.args.tree.now in
    kept_here c.keys-in-Read.result.now tree.keys c.live-live.result.now tree.live tree.claims entries (folder_in g.R.Reads c.args.folder.now) (folder_in g.R.Reads c.read.new.folder) source
    (plain_request c.args.request.now) (read c.in-Read.node c.in-Read.at c.in-Read.count) second c.read.result c.args.buffer.now c.read.new.buffer c.keys-in-Read.ensures c.live-live.ensures (ap plain_request c.in-Read.is)
    (c.read.ensures.still tree.claims entries second source)

pub returns-in-Look-clause-still : goal.returns-in-Look-clause-still
returns-in-Look-clause-still g c = λ entries second source.
    let tree = c.args.tree.now in
    let folder = folder_in g.R.Reads c.args.folder.now in
    let known = look c.in-Look.node in
    looked_up tree.keys c.live-live.result.now tree.live tree.claims entries folder source (plain_request c.args.request.now) known second c.look.result c.args.buffer.now c.args.buffer.now
    c.live-live.ensures (ap plain_request c.in-Look.is) (record { never = λ may. may; path = λ s d live. refl })
    (plain_read tree.keys c.live-live.result.now tree.claims folder folder known c.look.result c.args.buffer.now (reading_keeps known (plain_reply c.look.result) tt) refl
    c.look.ensures.answer c.look.ensures.form c.look.ensures.own c.look.ensures.count)

pub returns-in-StatOf-clause-still : goal.returns-in-StatOf-clause-still
returns-in-StatOf-clause-still g c = λ entries second source.
    let tree = c.args.tree.now in
    let folder = folder_in g.R.Reads c.args.folder.now in
    let known = stat_of c.in-StatOf.node in
    let sizes = subst (λ (k : KeyPair). SizesAreHeld (sealing_of k)) c.keys.ensures c.have_sizes.ensures in
    looked_up tree.keys c.live-live.result.now tree.live tree.claims entries folder source (plain_request c.args.request.now) known second c.stat_of.result c.args.buffer.now c.stat_of.new.buffer
    c.live-live.ensures (ap plain_request c.in-StatOf.is) (record { never = λ may. may; path = λ s d live. refl })
    (sized_read tree.keys c.live-live.result.now tree.claims folder folder known c.stat_of.result c.args.buffer.now c.stat_of.new.buffer tt (λ d contents stands. (sizes d c.live-live.result.now tree.claims contents stands).lengths)
    c.stat_of.ensures.answer c.stat_of.ensures.form c.stat_of.ensures.rest c.stat_of.ensures.own c.stat_of.ensures.count)

pub returns-in-OpenNode-clause-still : goal.returns-in-OpenNode-clause-still
returns-in-OpenNode-clause-still g c = λ entries second source.
    let tree = c.args.tree.now in
    let folder = folder_in g.R.Reads c.args.folder.now in
    let known = open_node c.in-OpenNode.node c.in-OpenNode.mode in
    looked_up tree.keys c.live-live.result.now tree.live tree.claims entries folder source (plain_request c.args.request.now) known second c.open_node.result c.args.buffer.now c.args.buffer.now
    c.live-live.ensures (ap plain_request c.in-OpenNode.is) (record { never = λ may. may; path = λ s d live. refl })
    (plain_read tree.keys c.live-live.result.now tree.claims folder folder known c.open_node.result c.args.buffer.now
    (reading_keeps known (plain_reply c.open_node.result) (subst (λ (r : Request). IsReading (plain_request r)) c.in-OpenNode.is c.requires.reads)) refl
    c.open_node.ensures.answer c.open_node.ensures.form c.open_node.ensures.own c.open_node.ensures.count)

pub returns-in-Walk-clause-still : goal.returns-in-Walk-clause-still
returns-in-Walk-clause-still g c = λ entries second source.
    let tree = c.args.tree.now in
    let folder = folder_in g.R.Reads c.args.folder.now in
    let names = names_in c.in-Walk.names.count c.in-Walk.names.bytes.now in
    looked_up tree.keys c.live-live.result.now tree.live tree.claims entries folder source (plain_request c.args.request.now) (walk c.in-Walk.node names) second c.or_lacks_memory.result c.args.buffer.now c.args.buffer.now
    c.live-live.ensures (ap plain_request c.in-Walk.is) (record { never = λ may. may; path = λ s d live. refl })
    (walk_read tree.keys c.live-live.result.now tree.claims folder c.in-Walk.node names c.walk.result c.or_lacks_memory.result c.args.buffer.now c.or_lacks_memory.ensures
    c.walk.ensures.answer c.walk.ensures.form c.walk.ensures.own c.walk.ensures.count c.walk.ensures.there)

pub returns-in-List-clause-still : goal.returns-in-List-clause-still
returns-in-List-clause-still g c = λ entries second source.
    let tree = c.args.tree.now in
    let folder = folder_in g.R.Reads c.args.folder.now in
    let after = option_copied c.bytes_of.result in
    let sizes = subst (λ (k : KeyPair). SizesAreHeld (sealing_of k)) c.keys.ensures c.have_sizes.ensures in
    looked_up tree.keys c.live-live.result.now tree.live tree.claims entries folder source (plain_request c.args.request.now) (list c.in-List.node after c.in-List.count) second c.or_lacks_memory-in-List.result c.args.buffer.now c.list.new.buffer
    c.live-live.ensures (ap plain_request c.in-List.is ∙ ap (λ (o : Option (List ℕ)). list c.in-List.node o c.in-List.count) (sym c.bytes_of.ensures)) (record { never = λ may. may; path = λ s d live. refl })
    (list_read tree.keys c.live-live.result.now tree.claims folder c.in-List.node c.in-List.count after c.list.result c.or_lacks_memory-in-List.result c.args.buffer.now c.list.new.buffer c.or_lacks_memory-in-List.ensures
    (λ d contents stands. (sizes d c.live-live.result.now tree.claims contents stands).lengths) c.list.ensures.answer c.list.ensures.form c.list.ensures.rest c.list.ensures.own c.list.ensures.count c.list.ensures.unchanged c.list.ensures.there)
