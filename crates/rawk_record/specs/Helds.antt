-- Where records lie.
use Rattle.rawk_record.specs.Drafts.{IsPlaced, shown_of}
use Rattle.rawk_record.specs.Shown.{Shown}
use Rattle.rawk_record.specs.declared.held.Held.{Held}
use Rattle.rawk_record.specs.declared.held.Held.TheVariants.{Wide, InPlace, Uncut}

abbrev pub shown_in : Held → Shown
shown_in (Wide parts) = shown_of parts
shown_in (InPlace short) = short
shown_in (Uncut uncut) = uncut

-- each field has its place
abbrev pub IsHeld : Held → Type 0
IsHeld (Wide parts) = IsPlaced parts
IsHeld (InPlace short) = Unit {0}
IsHeld (Uncut uncut) = Unit {0}
