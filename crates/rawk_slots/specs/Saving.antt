-- What holds where old values are saved.
use Rattle.std.specs.Prelude.{Bool, true, false}
use Rattle.std.specs.Bool.{OnTrue}

pub OnTrue-any : (b : Bool) (P : Type 0) → P → OnTrue b P
OnTrue-any true P p = p
OnTrue-any false P p = tt

pub OnTrue-map : (b : Bool) (P Q : Type 0) → (P → Q) → OnTrue b P → OnTrue b Q
OnTrue-map true P Q f p = f p
OnTrue-map false P Q f p = tt

pub OnTrue-both : (b : Bool) (P Q R : Type 0) → (P → Q → R) → OnTrue b P → OnTrue b Q → OnTrue b R
OnTrue-both true P Q R f p q = f p q
OnTrue-both false P Q R f p q = tt
