-- The edges of the rules, by computation.
use Rattle.std.proofs.Common.{refl}
use Rattle.ps_subset.specs.EdgeSamples.{WhiteSpace, Counts, Depths, Restores, Elements, Matrices}
use Rattle.ps_subset.proofs.Open.{all_open}

pub white_space : WhiteSpace
unfolding all_open
white_space = (refl, refl, refl, refl, refl)

pub counts : Counts
unfolding all_open
counts = (refl, refl, refl, refl, refl, refl)

pub depths : Depths
unfolding all_open
depths = (refl, refl)

pub restores : Restores
unfolding all_open
restores = (refl, refl, refl, refl, refl, refl, refl, refl)

pub elements : Elements
unfolding all_open
elements = (refl, refl, refl, refl, refl, refl, refl, refl, refl, refl, refl, refl, refl, refl)

pub matrices : Matrices
unfolding all_open
matrices = (refl, refl, refl, refl, refl, refl)
