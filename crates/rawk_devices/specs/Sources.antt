-- What sources give: the laws of the two that the crate has.
use Rattle.std.specs.Prelude.{◌≡◌, ◌≤◌, ℕ, length, [], Option, None, Some}
use Rattle.std.proofs.Common.{◌∙◌, ap}
use Rattle.std.proofs.lemmas.List.{drop_all}
use Rattle.rawk_value.specs.Values.{Bytes}
use Rattle.rawk_devices.specs.Inputs.{Input, left_from, nothing, is_failed, AllowedBy}
use Rattle.rawk_devices.specs.declared.source.Ending.{Ending}
use Rattle.rawk_devices.specs.declared.source.Ending.TheVariants.{Ended}

-- bytes that are all given leave nothing
pub nothing_left : (bytes : Bytes) (place : ℕ) (ending e : Ending) (rest : Input) → length bytes ≤ place → ending ≡ e → rest ≡ left_from bytes place ending → rest ≡ nothing e
nothing_left bytes place ending e rest all so gives =
    gives ∙ (ap (λ (xs : Bytes). record { bytes = xs; fails = is_failed ending }) (drop_all place bytes all) ∙ ap (λ (x : Ending). record { bytes = []; fails = is_failed x }) so)

-- some input is always allowed
pub some_allowed : (over : Option Ending) → (rest : Input) × AllowedBy over rest
some_allowed None = (nothing Ended, λ ending is. cc)
some_allowed (Some reported) = (nothing reported, λ ending is. cc)
