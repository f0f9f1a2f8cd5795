use Rattle.std.proofs.Common.{◌≡◌, [], ap, arith, get_or}
use Rattle.std.proofs.lemmas.Option.{slice_get-get_or}
use Rattle.rawk_keys.specs.ArrayKey.{ArrayKey, array_key}
use Rattle.rawk_arrays.specs.Walks.{one}
use Rattle.rawk_arrays.proofs.Counting.{at_either, was_empty}
use Rattle.rawk_arrays.proofs.counts.recount.Goals as goal

pub index-requires : goal.index-requires
index-requires c =
    let d : ArrayKey = array_key 0 [] in
    let name : ArrayKey = get_or c.args.index.now c.args.number d in
    let is = slice_get-get_or c.args.index.now c.args.number d c.requires.there in
    omega (arith, c.array-array.ensures name is, c.requires.within name is)

pub index-requires-else-is : goal.index-requires-else-is
index-requires-else-is c =
    let d : ArrayKey = array_key 0 [] in
    let name : ArrayKey = get_or c.args.index.now c.args.number d in
    let is = slice_get-get_or c.args.index.now c.args.number d c.requires.there in
    omega (arith, c.array-array.ensures name is, c.requires.within name is)

pub index_mut-requires : goal.index_mut-requires
index_mut-requires c =
    let d : ArrayKey = array_key 0 [] in
    let name : ArrayKey = get_or c.args.index.now c.args.number d in
    let is = slice_get-get_or c.args.index.now c.args.number d c.requires.there in
    omega (arith, c.array-array.ensures name is, c.requires.within name is)

pub overflow_add-index : goal.overflow_add-index
overflow_add-index c =
    let d : ArrayKey = array_key 0 [] in
    let name : ArrayKey = get_or c.args.index.now c.args.number d in
    let is = slice_get-get_or c.args.index.now c.args.number d c.requires.there in
    let now : get_or c.args.counts.now.items c.array-array.result c.index.result.now ≡ get_or c.args.counts.now.items name.array 0 = at_either c.args.counts.now.items c.array-array.result name.array c.index.result.now (c.array-array.ensures name is) (c.requires.within name is) in
    omega (arith, c.index.ensures, now, c.requires.room name is, ap one c.if-is.true, was_empty c.args.was c.args.is c.if-is.true c.if-was-is.false)
