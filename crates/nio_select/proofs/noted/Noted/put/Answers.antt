use Rattle.std.proofs.Common.{◌*◌, ◌/◌, ◌%◌, ◌^◌, ◌<◌, length, refl, ap, ◌∙◌, arith, bit_or}
use Rattle.std.proofs.lemmas.List.{get_or_default}
use Rattle.nio_select.proofs.NotedWords.{put_to}
use Rattle.nio_select.proofs.noted.Noted.put.Goals as goal

pub returns : goal.returns
returns c =
    let old = c.args.self.now in
    let within : c.args.i / 64 < length old.words.items = omega (arith, c.requires.words) in
    put_to c.args.i c.args.ops c.union.result _ old _ c.requires.told within refl
    (c.union.ensures ∙ ap (λ n. bit_or n c.args.ops)
    (c.index.ensures ∙ get_or_default old.told.items c.args.i c.index.result.now 0 c.requires.told))
    refl
    (ap (λ n. bit_or n (1 * 2 ^ (c.args.i % 64) % 2 ^ 64))
    (c.index_mut-2.ensures.value ∙ get_or_default old.words.items (c.args.i / 64) c.index_mut-2.result.now 0 within))
