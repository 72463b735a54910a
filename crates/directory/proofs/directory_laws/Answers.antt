use Rattle.directory.proofs.Lookups.{ends_there, ends_once, index_on_way, way_goes_down, ways_part, index_below, page_below, page_reachable, home}
use Rattle.directory.proofs.Splits.{split_page}
use Rattle.directory.proofs.directory_laws.Goals as goal

pub returns : goal.returns
returns c =
    record {
      ends = ends_there;
      once = ends_once;
      index = index_on_way;
      way = way_goes_down;
      apart = ways_part;
      indexes = index_below;
      pages = page_below;
      reachable = page_reachable;
      home = home;
      split = split_page;
    }
