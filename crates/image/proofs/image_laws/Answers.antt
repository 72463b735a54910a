use Rattle.image.proofs.Laws.{bits, inside, page, past}
use Rattle.image.proofs.image_laws.Goals as goal

pub returns : goal.returns
returns c = λ dir pag. record {
  bits = bits dir pag;
  page = page dir pag;
  inside = inside dir pag;
  past = past dir pag;
}
