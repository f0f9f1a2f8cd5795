use Rattle.std.proofs.Common.{◌≡◌, take, map}
use Rattle.rawk_names.specs.Mentions.{all, every, seen, link_mentions, builtin_arguments, call_arguments}
use Rattle.rawk_names.specs.Noted.{noted_all, shown}
use Rattle.rawk_names.proofs.expressions.+walk.Given as goal

abbrev pub invariant-note_list-loop-e : goal.invariant-note_list-loop-e
invariant-note_list-loop-e l = shown l.register ≡ noted_all (all (map seen (take l.e-index l.list))) (shown l.fn.register)

abbrev pub invariant-note_links-loop-link : goal.invariant-note_links-loop-link
invariant-note_links-loop-link l = shown l.register ≡ noted_all (every (map link_mentions (take l.link-index l.links))) (shown l.fn.register)

abbrev pub invariant-note_builtin-loop-argument : goal.invariant-note_builtin-loop-argument
invariant-note_builtin-loop-argument l = shown l.register ≡ noted_all (builtin_arguments l.function 0 (map seen (take l.argument l.arguments))) (shown l.fn.register)

abbrev pub invariant-note_call-loop-argument : goal.invariant-note_call-loop-argument
invariant-note_call-loop-argument l = shown l.register ≡ noted_all (call_arguments l.function 0 (map seen (take l.argument l.arguments))) (shown l.fn.register)
