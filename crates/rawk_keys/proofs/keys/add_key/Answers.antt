use Rattle.std.proofs.Common.{◌≡◌, ◌++◌, ◌∷◌, [], ◌∙◌, List, ap, length, OnErr, Result, Ok, Err}
use Rattle.rawk_keys.specs.declared.keys.KeyRange.{KeyRange}
use Rattle.rawk_keys.specs.KeysLaid.{keys_of}
use Rattle.rawk_keys.proofs.KeyLemmas.{names_text, named_more, AreLaid-more, AreLaid-text}
use Rattle.rawk_keys.proofs.keys.add_key.Goals as goal

on_err : {A B : Type 0} (r : Result A B) (P : Type 0) → P → OnErr r P
on_err (Ok x) P p = tt
on_err (Err e) P p = p

pub returns-in_err-span-clause-err : goal.returns-in_err-span-clause-err
returns-in_err-span-clause-err c =
    let text = c.args.text.now.items in
    let key = c.args.key.now in
    let text2 : c.extend_from_slice.new.self.items ≡ text ++ key = c.in_ok-extend_from_slice.ensures.items in
    on_err c.from_residual-in_err-span.result (keys_of c.extend_from_slice.new.self.items c.args.by_array.now c.reserve.new.self.items ≡ keys_of c.args.text.now.items c.args.by_array.now c.args.spans.now.items) (rw (text2, c.reserve.ensures.items) (names_text text key c.args.by_array.now c.args.spans.now.items c.requires.laid.within))

pub returns-in_err-span-clause-array_key : goal.returns-in_err-span-clause-array_key
returns-in_err-span-clause-array_key c =
    let text = c.args.text.now.items in
    let key = c.args.key.now in
    let text2 : c.extend_from_slice.new.self.items ≡ text ++ key = c.in_ok-extend_from_slice.ensures.items in
    rw (text2, c.reserve.ensures.items) (AreLaid-text c.args.basis text key c.args.by_hash.now c.args.by_array.now c.args.spans.now.items c.requires.laid)

pub returns-in_err-add_labels-clause-err : goal.returns-in_err-add_labels-clause-err
returns-in_err-add_labels-clause-err c =
    let text = c.args.text.now.items in
    let key = c.args.key.now in
    let text2 : c.extend_from_slice.new.self.items ≡ text ++ key = c.in_ok-extend_from_slice.ensures.items in
    on_err c.from_residual-in_err-add_labels.result (keys_of c.extend_from_slice.new.self.items c.add_labels.new.by_array c.reserve.new.self.items ≡ keys_of c.args.text.now.items c.args.by_array.now c.args.spans.now.items) (rw (text2, c.in_err-add_labels.ensures.same_arrays, c.reserve.ensures.items) (names_text text key c.args.by_array.now c.args.spans.now.items c.requires.laid.within))

pub returns-in_err-add_labels-clause-array_key : goal.returns-in_err-add_labels-clause-array_key
returns-in_err-add_labels-clause-array_key c =
    let text = c.args.text.now.items in
    let key = c.args.key.now in
    let text2 : c.extend_from_slice.new.self.items ≡ text ++ key = c.in_ok-extend_from_slice.ensures.items in
    rw (text2, c.in_err-add_labels.ensures.same_arrays, c.in_err-add_labels.ensures.same_hashes, c.reserve.ensures.items) (AreLaid-text c.args.basis text key c.args.by_hash.now c.args.by_array.now c.args.spans.now.items c.requires.laid)

pub returns-clause-did : goal.returns-clause-did
returns-clause-did c =
    let text = c.args.text.now.items in
    let key = c.args.key.now in
    let spans = c.args.spans.now.items in
    let s : KeyRange = record { start = c.len-start.result; end = c.len-end.result } in
    let text2 : c.extend_from_slice.new.self.items ≡ text ++ key = c.in_ok-extend_from_slice.ensures.items in
    let spans2 : c.push_reserved.new.self.items ≡ spans ++ s ∷ [] = c.push_reserved.ensures.items ∙ ap (λ (xs : List KeyRange). xs ++ c.in_ok-span.span ∷ []) c.reserve.ensures.items ∙ ap (λ (r : KeyRange). spans ++ r ∷ []) c.in_ok-span.ensures in
    let start : c.len-start.result ≡ length text = c.len-start.ensures ∙ c.args.text.now.ok.0 in
    let end : c.len-end.result ≡ length (text ++ key) = c.len-end.ensures ∙ (c.extend_from_slice.new.self.ok.0 ∙ ap length text2) in
    rw (text2, c.in_ok-add_labels.ensures.arrays, spans2) (named_more text key c.args.by_array.now spans c.args.array s start end c.requires.laid.within c.requires.laid.arrays_size)

pub returns-clause-array_key : goal.returns-clause-array_key
returns-clause-array_key c =
    let text = c.args.text.now.items in
    let key = c.args.key.now in
    let spans = c.args.spans.now.items in
    let s : KeyRange = record { start = c.len-start.result; end = c.len-end.result } in
    let text2 : c.extend_from_slice.new.self.items ≡ text ++ key = c.in_ok-extend_from_slice.ensures.items in
    let spans2 : c.push_reserved.new.self.items ≡ spans ++ s ∷ [] = c.push_reserved.ensures.items ∙ ap (λ (xs : List KeyRange). xs ++ c.in_ok-span.span ∷ []) c.reserve.ensures.items ∙ ap (λ (r : KeyRange). spans ++ r ∷ []) c.in_ok-span.ensures in
    let start : c.len-start.result ≡ length text = c.len-start.ensures ∙ c.args.text.now.ok.0 in
    let end : c.len-end.result ≡ length (text ++ key) = c.len-end.ensures ∙ (c.extend_from_slice.new.self.ok.0 ∙ ap length text2) in
    rw (text2, c.in_ok-add_labels.ensures.arrays, c.in_ok-add_labels.ensures.hashes, spans2) (AreLaid-more c.args.basis text key c.args.by_hash.now c.args.by_array.now spans c.args.array c.args.hash s start end c.requires.hash c.requires.laid)
