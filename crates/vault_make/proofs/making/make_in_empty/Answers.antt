use Rattle.std.proofs.Common.{[], refl, inl, inr}
use Rattle.vault_make.specs.Draws.{draws_data}
use Rattle.vault_make.proofs.Made.{is_root_path, made, stops}
use Rattle.vault_make.proofs.making.make_in_empty.Goals as goal

pub lay_out-requires-clause-root : goal.lay_out-requires-clause-root
lay_out-requires-clause-root g c = is_root_path c.in_ok-draws.draws.keys [] c.folder_of.result c.folder_of.ensures

pub returns-in-Ok-clause-made : goal.returns-in-Ok-clause-made
returns-in-Ok-clause-made g c = record {
  secrets = draws_data c.in_ok-draws.draws;
  lengths = c.in_ok-draws.ensures.lengths;
  drawn = c.in_ok-draws.ensures.drawn;
  vault = made (g.D.Reads.log c.args.folder.now) (g.D.Reads.log c.args.folder.now) (g.D.Reads.log c.lay_out.new.folder) c.args.password.now (draws_data c.in_ok-draws.draws) c.in_ok-files.files
      c.folder_of.result refl c.folder_of.ensures c.in_ok-files.ensures c.requires c.in-Ok.ensures.laid;
  stops = stops (g.D.Reads.log c.args.folder.now) (g.D.Reads.log c.lay_out.new.folder) c.args.password.now (draws_data c.in_ok-draws.draws) c.in_ok-files.files c.folder_of.result
      c.folder_of.ensures c.in_ok-files.ensures c.in-Ok.ensures.stops;
}

pub returns-clause-unmade : goal.returns-clause-unmade
returns-clause-unmade g c = elim c.in-Err.ensures.failed [
  | inl h ↦ inl h
  | inr h ↦ inr record {
    secrets = draws_data c.in_ok-draws.draws;
    lengths = c.in_ok-draws.ensures.lengths;
    drawn = c.in_ok-draws.ensures.drawn;
    empty = c.requires;
    stops = stops (g.D.Reads.log c.args.folder.now) (g.D.Reads.log c.lay_out.new.folder) c.args.password.now (draws_data c.in_ok-draws.draws) c.in_ok-files.files c.folder_of.result
        c.folder_of.ensures c.in_ok-files.ensures h;
  }
]
