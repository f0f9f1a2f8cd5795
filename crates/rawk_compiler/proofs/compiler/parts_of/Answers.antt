use Rattle.std.proofs.Common.{◌+◌, ◌++◌, ◌∷◌, [], refl, ap, ◌∙◌, length, map}
use Rattle.rawk_code.specs.declared.code.Instr.TheVariants.{BeginEnd, Halt}
use Rattle.rawk_compiler.specs.Code.{nowhere, in_turn, stmt_code, main_code, functions_code, entries_from}
use Rattle.rawk_compiler.proofs.Assembly.{assembled}
use Rattle.rawk_compiler.proofs.compiler.parts_of.Goals as goal

pub returns : goal.returns
returns c =
    let c0 = c.new-instrs.result.items in
    let c1 = c.emit_block.new.code.items in
    let c2 = c.emit_main.new.code.items in
    let c3 = c.emit_end.new.code.items in
    assembled c.args.program.now c0 c1 c2 c3 _ c.has_records.result (record {
      none = c.new-instrs.ensures.items;
      begin = c.in_ok-emit_block.ensures ∙ ap (λ l. c0 ++ in_turn (map stmt_code l) nowhere (length c0)) c.deref.ensures.value;
      is_reading = c.has_records.ensures;
      main = c.in_ok-emit_main.ensures ∙ ap (λ l. c1 ++ main_code c.has_records.result l (length c1)) c.deref-2.ensures.value;
      end = c.in_ok-end_at.ensures.items ∙ ap (λ l. c2 ++ BeginEnd ∷ (in_turn (map stmt_code l) nowhere (length c2 + 1) ++ Halt ∷ [])) c.deref-3.ensures.value;
      record_at = ap (λ n. n + 1) (c.len-begin_len.ensures ∙ c.emit_block.new.code.ok.0);
      end_at = c.in_ok-end_at.ensures.place;
      functions = c.in_ok-entries.ensures.items ∙ ap (λ l. c3 ++ functions_code l (length c3)) c.deref-4.ensures.value;
      entries = c.in_ok-entries.ensures.entries ∙ ap (λ l. entries_from l (length c3)) c.deref-4.ensures.value;
      names = c.in_ok-names.ensures ∙ c.deref-5.ensures.value;
      ranges = refl;
    })
