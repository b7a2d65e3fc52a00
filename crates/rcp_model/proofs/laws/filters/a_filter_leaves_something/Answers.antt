use Rattle.rcp_model.proofs.FilterLemmas.{unbeaten_filled, higher_order, lower_order, exit_order, tied_filled}
use Rattle.rcp_model.specs.Decision.{has_higher_preference, has_shorter_path, has_lower_origin, has_lower_exit}
use Rattle.rcp_model.proofs.laws.filters.a_filter_leaves_something.Goals as goal

pub returns : goal.returns
returns c = record {
  preference = unbeaten_filled has_higher_preference (higher_order (λ a. a.pref));
  path = unbeaten_filled has_shorter_path (lower_order (λ a. a.hops));
  origin = unbeaten_filled has_lower_origin (lower_order (λ a. a.origin));
  exit = unbeaten_filled has_lower_exit exit_order;
  all = tied_filled;
}
