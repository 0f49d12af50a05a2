use Rattle.std.proofs.Common.{[], ◌∷◌, codes, IfOk, sym, subst}
use Rattle.std.specs.List.{flat_map}
use Rattle.writer.specs.Bytes.{colon, code_fields}
use Rattle.writer.specs.Drafts.{Puts, told_fields}
use Rattle.writer.proofs.Drafts.{puts_last, puts_more, puts_fields}
use Rattle.writer.proofs.put.ResultCodePut.put.Goals as goal

pub returns-in-Err : goal.returns-in-Err
returns-in-Err g c =
    let back = sym c.in-Err.is in
    let rest = puts_more (codes "Nil") (codes "0" ∷ []) c.put_field.ensures (puts_last (codes "0") c.put_field-in-Err.ensures) in
    record {
      puts =
          subst (λ r. Puts c.args.draft.now (flat_map colon (told_fields g.V.Put.fields r)) c.put_field-in-Err.new.self) back
          (puts_fields (code_fields c.in-Err.code) (codes "Nil" ∷ codes "0" ∷ []) c.put-in-Err.ensures.puts rest);
      fits = subst (λ r. IfOk r g.V.Put.fits) back tt;
    }
