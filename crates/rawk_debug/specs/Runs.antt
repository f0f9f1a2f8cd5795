-- A session, a turn at a time: what is so of the turns taken so far, and what it comes to.
use Rattle.std.proofs.Common.{◌≡◌, false, List, [], ◌∷◌, ◌++◌, refl, subst, append-nil, append_assoc}
use Rattle.rawk_devices.specs.Inputs.{Input}
use Rattle.rawk_value.specs.Values.{Bytes}
use Rattle.rawk_debug.specs.declared.transcript.Reply.{Reply}
use Rattle.rawk_debug.specs.declared.transcript.Reply.TheVariants.{Text, Line, Nothing, Quits}
use Rattle.rawk_debug.specs.Moves.{Stand}
use Rattle.rawk_debug.specs.Transcript.{Turn, Transcript, Carries, Follows, IsReply, request, is_quit, reply_text}

-- the turns lead from first to now, and this is what they were replied: whatever follows now, follows them
abbrev pub Leads : Input → List Turn → Stand → Bytes → Stand → Type 0
Leads input turns first out now =
    (more : List Turn) (rest : Bytes) (new : Stand) → Transcript input more now rest new → Transcript input (turns ++ more) first (out ++ rest) new

-- no turns
pub leads_nowhere : (input : Input) (first : Stand) → Leads input [] first [] first
leads_nowhere input first more rest new t = t

followed : (input : Input) (turn : Turn) (old : Stand) (output : Bytes) (reply : Reply) (new : Stand) → IsReply reply → Carries input turn old output reply new
    → (is_quit (request turn) ≡ false) × Follows input (request turn) old (reply_text output reply) new
followed input turn old output (Text from text) new stays c = c
followed input turn old output (Line reason) new stays c = c
followed input turn old output Nothing new stays c = c
followed input turn old output Quits new stays c = absurd stays

module _ (input : Input) (turns : List Turn) (first : Stand) (out : Bytes) (now : Stand) (h : Leads input turns first out now) (turn : Turn) (output : Bytes) where
  -- one more turn, which does not end the session
  pub leads_on : (reply : Reply) (mid : Stand) → IsReply reply → Carries input turn now output reply mid → Leads input (turns ++ turn ∷ []) first (out ++ reply_text output reply) mid
  leads_on reply mid stays c more rest new t =
      let f = followed input turn now output reply mid stays c in
      let all = h (turn ∷ more) (reply_text output reply ++ rest) new (rw f.0 (mid, reply_text output reply, rest, f.1, t, refl)) in
      rw (append_assoc turns (turn ∷ []) more, append_assoc out (reply_text output reply) rest) all

  -- a turn that ends the session, whatever turns come after it
  pub leads_to_quit : (mid : Stand) (more : List Turn) → Carries input turn now output Quits mid → Transcript input (turns ++ turn ∷ more) first out mid
  leads_to_quit mid more c =
      let P : Bytes → Type 0 = λ o. Transcript input (turns ++ turn ∷ more) first o mid in
      subst P (append-nil out) (h (turn ∷ more) [] mid (rw c.0 (refl, c.1)))

-- no more turns
pub leads_to_end : (input : Input) (turns : List Turn) (first : Stand) (out : Bytes) (now : Stand) → Leads input turns first out now → Transcript input turns first out now
leads_to_end input turns first out now h =
    let P : List Turn × Bytes → Type 0 = λ p. Transcript input p.0 first p.1 now in
    subst P (λ i. (append-nil turns i, append-nil out i)) (h [] [] now (refl, refl))
