-- The answers of the database as what becomes of an instance.
use Rattle.rcp_model.specs.LinkState as state
use Rattle.lsdb.specs.declared.recency.Installed.{Installed}
use Rattle.lsdb.specs.declared.recency.Installed.TheVariants.{Newer, Same, Older, Flushed, Dropped}

abbrev pub installation_of : Installed → state.Installation
installation_of Newer = state.Newer
installation_of Same = state.Same
installation_of Older = state.Older
installation_of Flushed = state.Flushed
installation_of Dropped = state.Dropped
