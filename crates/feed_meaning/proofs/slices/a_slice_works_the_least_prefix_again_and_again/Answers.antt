use Rattle.feed_meaning.proofs.SliceLemmas.{slice-some, slice-none}
use Rattle.feed_meaning.proofs.slices.a_slice_works_the_least_prefix_again_and_again.Goals as goal

pub returns-clause-some : goal.returns-clause-some
returns-clause-some c = slice-some

pub returns-clause-none : goal.returns-clause-none
returns-clause-none c = slice-none
