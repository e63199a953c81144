use Rattle.cbm_volume.proofs.layouts.Staying.{stays_then}
use Rattle.cbm_volume.proofs.laws.files_stay_over_two_calls.Goals as goal

pub returns : goal.returns
returns c = λ tracks between content mid new l first second one sound two. stays_then tracks between content mid new l first second one sound two
