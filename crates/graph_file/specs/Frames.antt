-- What stays as it is while the lent tables are written.
use Rattle.std.specs.Prelude.{◌≡◌}
use Rattle.graph_file.specs.declared.reader.Reader.{Reader}
use Rattle.graph_file.specs.declared.tables.Tables.{Tables}

-- the same limits over the same memory
pub record SameReader (old new : Reader) : Type 0 where
  pub limits : new.limits ≡ old.limits
  pub roads : new.roads.ghost_name ≡ old.roads.ghost_name
  pub points : new.points.ghost_name ≡ old.points.ghost_name

-- the same figures over the same memory
pub record SameTables (old new : Tables) : Type 0 where
  pub loaded : new.loaded ≡ old.loaded
  pub spacing : new.spacing ≡ old.spacing
  pub roads : new.roads.ghost_name ≡ old.roads.ghost_name
  pub points : new.points.ghost_name ≡ old.points.ghost_name
